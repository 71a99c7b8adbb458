mod CrashLemmas
mod OpenLemmas
mod StepLemmas
