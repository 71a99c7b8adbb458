pub mod FreeLemmas
