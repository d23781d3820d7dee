mod FilesLemmas
pub mod TextLemmas
