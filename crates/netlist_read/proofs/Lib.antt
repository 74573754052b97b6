-- Laws about the parts of read and the tables lent to them, lowest first.
pub mod HeldLaws
pub mod OperationLaws
pub mod OutputLaws
pub mod NetlistLaws
