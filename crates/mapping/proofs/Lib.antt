-- Laws of singles in a table: the walk to them, descriptions with one changed, where singles stand, what is found then.
pub mod Walking
pub mod Changing
pub mod Starts
pub mod Places
pub mod Looking
