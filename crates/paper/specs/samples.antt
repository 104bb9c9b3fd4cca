-- The samples, apart from the definitions: what these say of small files, settled by computing them. Nobody need believe them.
pub mod Files
pub mod Told
pub mod Marked
pub mod Tried
pub mod Further
pub mod Widths
pub mod Labels
pub mod Partners
pub mod Index
