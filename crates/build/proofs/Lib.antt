-- Laws of the builder.
pub mod BuildLaws
pub mod PassLaws
