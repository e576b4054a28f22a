mod HeaderLaws
mod StepLaws
