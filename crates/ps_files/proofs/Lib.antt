mod FileLemmas
mod FolderLemmas
