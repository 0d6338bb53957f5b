pub mod Fusing
