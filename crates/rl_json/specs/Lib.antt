pub mod JsonData
