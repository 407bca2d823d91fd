-- That a step can be undone, and examples.
mod StepBack
mod Examples
