pub mod ReaderOnLists
