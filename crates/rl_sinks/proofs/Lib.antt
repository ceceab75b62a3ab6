pub mod Written
mod Examples
