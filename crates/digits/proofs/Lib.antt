-- Laws of canonic signed digits, lowest first, over any number of positions.
pub mod Lowest
pub mod Canonic
pub mod Unique
pub mod Negated
pub mod Count
pub mod Powers
pub mod Marked
pub mod Bits
