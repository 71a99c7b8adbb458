mod CountLemmas
mod GrowthLemmas
mod RoomLemmas
mod StepLemmas
