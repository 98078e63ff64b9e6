pub mod Growth
