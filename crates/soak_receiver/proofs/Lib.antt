mod Fillings
mod Moving
mod Retelling
mod Listening
mod Lending
mod Announcing
mod Hosts
mod Inputs
