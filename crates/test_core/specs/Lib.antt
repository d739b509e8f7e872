-- What a call on the table of forks changes, key by key.
pub mod KeyByKey
