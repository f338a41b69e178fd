-- Laws of a search over our own tree.
pub mod BuiltLaws
