-- What the public calls mean. To read first: Demands, and then the pages that it cites: Check, Tables, Bitmaps, Questions, Conversions;
-- Modes (PSF1's modes), Edits (mappings added and dropped in place), Differences (two fonts compared), Noncharacters (which are no values), Loading (the checker fed by
-- pieces), Glyphs (the glyph of a refusal), Program (`fontload`) and Vectors (the cases P1 to P14). The other files are the steps to them.
pub mod Demands
pub mod Check
pub mod Tables
pub mod Bitmaps
pub mod Questions
pub mod Conversions
pub mod Modes
pub mod Edits
pub mod Differences
pub mod Noncharacters
pub mod Loading
pub mod Glyphs
pub mod Program
pub mod Vectors
mod Exactly
mod Refusals
mod Deciding
mod Tails
mod Asking
mod Reading
mod WellFormed
mod Located
mod Converting
mod Refusing
mod Listed
mod Retabled
mod Editing
mod Adding
mod Dropping
mod Unlisted
mod Marked
mod Returning
mod Regions
mod Pieces
mod Loaded
mod Early
mod Alike
mod Pairing
mod Differing
mod Comparing
mod Numbering
mod Handing
