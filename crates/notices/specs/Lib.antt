-- What a program tells where it has nothing to show: it has to be believed of the programs.
pub mod Notice
