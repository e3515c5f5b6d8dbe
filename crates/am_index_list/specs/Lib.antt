pub mod RefusingIndex
