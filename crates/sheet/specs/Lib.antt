pub mod Lines
pub mod Sheets
pub mod Grammar
pub mod Places
pub mod Rows
pub mod Forms
pub mod Errors
pub mod Answers
