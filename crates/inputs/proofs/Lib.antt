pub mod Numbers
pub mod WideNumbers
