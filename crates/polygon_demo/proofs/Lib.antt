mod TailLemmas
mod BoundedTest
mod ReflexiveTest
mod UnitBoxes
mod DemoPairs
