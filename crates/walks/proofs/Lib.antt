-- Laws of walks, of orders and of allowances.
pub mod ListLaws
pub mod WalkLaws
pub mod OrderLaws
pub mod BestLaws
pub mod AllowanceLaws
pub mod CarriedLaws
