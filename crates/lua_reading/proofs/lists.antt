pub mod ExpressionLists
pub mod Fields
pub mod Names
