pub mod Importing
