pub mod Asking
pub mod Roomy
pub mod Loading
