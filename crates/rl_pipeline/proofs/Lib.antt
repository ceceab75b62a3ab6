pub mod Crossing
pub mod Leaves
pub mod LogfmtTexts
pub mod LogfmtTurns
pub mod Names
pub mod Pairs
pub mod Stages
pub mod Standing
