pub mod Charges
pub mod Drafts
pub mod Keys
pub mod LabelView
pub mod Tables
pub mod UnitForm
