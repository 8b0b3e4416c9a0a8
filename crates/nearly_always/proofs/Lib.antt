pub mod Nearly
