pub mod AllPods
pub mod Elsewhere
pub mod Standing
pub mod Touched
pub mod Touching
