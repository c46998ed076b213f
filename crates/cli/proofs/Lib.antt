mod CalledLemmas
mod JoinLemmas
mod PartLemmas
mod RacesLemmas
mod SearchLemmas
mod ValueLemmas
