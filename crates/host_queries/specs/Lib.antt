pub mod DueKeys
