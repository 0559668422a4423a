-- The user's three demands.
--   Deeds   == what the demands need
--   Demands == each sentence, by name
pub mod Deeds
pub mod Demands
