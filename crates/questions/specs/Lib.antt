-- What a question is: it has to be believed of the programs.
pub mod Question
