pub mod AllDrawn
