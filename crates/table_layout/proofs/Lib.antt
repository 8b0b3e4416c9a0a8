pub mod OfLayout
