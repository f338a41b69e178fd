-- What the contracts of the table cite.
pub mod Table
