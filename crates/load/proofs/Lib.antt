-- Laws on loading.
pub mod Laws
