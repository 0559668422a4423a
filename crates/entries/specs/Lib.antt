-- The pack file, what makes its layout refused, and what reading its entries promises. The rules of shapes and stripes that it cites are in crate `rules`.
--   Pack    == the pack file
--   Parts   == what stands where in a pack
--   Refusal == the refusals of a layout, in order
--   Promise == what the functions promise
pub mod Pack
pub mod Parts
pub mod Refusal
pub mod Promise
