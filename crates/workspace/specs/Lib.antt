pub mod Workspace
