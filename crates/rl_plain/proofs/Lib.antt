pub mod Escaping
mod Examples
