mod NoteLaws
mod StoreLaws
