pub mod NodeTests
