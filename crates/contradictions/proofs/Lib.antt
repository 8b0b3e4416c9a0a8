pub mod Contradictions
