pub mod ReportCalls
pub mod Parts
