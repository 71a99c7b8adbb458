pub mod HasTests
