pub mod CallKinds
