pub mod PaperWords
pub mod Further
