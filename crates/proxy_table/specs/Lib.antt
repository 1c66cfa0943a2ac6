pub mod Proxies
