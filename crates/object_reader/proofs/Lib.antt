pub mod NodeBlocks
pub mod ReadTexts
pub mod WholeObjects
