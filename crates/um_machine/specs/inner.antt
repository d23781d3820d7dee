pub mod OperatorCalls
