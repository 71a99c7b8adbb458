mod HostLemmas
mod ShownLemmas
mod WorkLemmas
