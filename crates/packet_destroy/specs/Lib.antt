pub mod Destroy
