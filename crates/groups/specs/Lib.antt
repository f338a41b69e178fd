-- What the contracts about an opened candidate cite.
pub mod Members
pub mod Leads
pub mod Opening
