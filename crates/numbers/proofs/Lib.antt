-- The numbers of labels without a fault fit
pub mod Laws
