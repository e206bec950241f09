pub mod CommandLine
pub mod Readers
pub mod Reads
