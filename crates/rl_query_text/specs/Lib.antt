pub mod AggregationReading
pub mod Drafts
pub mod QueryReading
pub mod TermGrammar
pub mod RangeGrammar
pub mod RangeReading
